pub mod Turns
pub mod Played
pub mod Whole
pub mod Ran
pub mod Examples
pub mod Unique
