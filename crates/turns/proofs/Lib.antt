pub mod Rest
pub mod NeverFourteen
pub mod Unique
