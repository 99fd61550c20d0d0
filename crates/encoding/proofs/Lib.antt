pub mod Carried
pub mod ThreeWords
pub mod Answered
pub mod AsBefore
pub mod Unique
