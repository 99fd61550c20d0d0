pub mod Sequences
pub mod Told
