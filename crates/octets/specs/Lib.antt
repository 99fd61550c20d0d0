pub mod Refusals
pub mod Number
pub mod Copy
pub mod Part
pub mod Checks
