pub mod Growth
pub mod Unique
