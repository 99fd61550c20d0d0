pub mod Contents
pub mod Ip
pub mod Matching
pub mod Front
pub mod Ambiguous
pub mod Clash
