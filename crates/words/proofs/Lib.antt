pub mod FromRoom
pub mod Unique
