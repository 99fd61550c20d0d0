pub mod InRange
pub mod Unique
