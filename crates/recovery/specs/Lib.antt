pub mod Soundness
pub mod Resets
pub mod Timer
pub mod Storage
pub mod Packets
pub mod LatentErrors
pub mod Spans
pub mod Repeats
