pub mod Told
pub mod Kept
pub mod Unique
