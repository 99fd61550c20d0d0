pub mod UnsoundStays
pub mod NeverRefused
pub mod SetupStays
pub mod Unique
