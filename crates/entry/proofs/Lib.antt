pub mod Ambiguous
pub mod Front
pub mod Packet
pub mod Unique
