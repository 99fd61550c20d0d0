pub mod Verdicts
pub mod Unique
