pub mod Constants
pub mod Judged
pub mod Rounded
pub mod Between
pub mod Bounds
pub mod Unique
pub mod Examples
