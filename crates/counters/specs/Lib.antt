pub mod Counting
pub mod LatentErrors
pub mod Growth
