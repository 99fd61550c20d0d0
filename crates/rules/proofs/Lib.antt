pub mod VectorLaws
pub mod VectorKeeps
pub mod FirstLaws
pub mod FirstKept
pub mod Places
pub mod Again
pub mod Unique
