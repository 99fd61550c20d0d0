pub mod Reading
pub mod Bounds
