pub mod Splice
pub mod Decided
pub mod Unique
pub mod Alike
pub mod Inserted
pub mod Removed
pub mod Trips
pub mod AsBefore
