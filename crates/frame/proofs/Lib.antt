pub mod Verdicts
pub mod Accepted
pub mod AsBefore
pub mod Unique
