pub mod Decided
pub mod Trips
pub mod Unique
