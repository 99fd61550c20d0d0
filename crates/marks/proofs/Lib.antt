pub mod Digits
pub mod Words
pub mod Counted
pub mod Reach
pub mod Moves
pub mod Meaning
pub mod Unique
pub mod AtOnce
