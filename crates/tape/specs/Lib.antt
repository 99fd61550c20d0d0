pub mod Player
pub mod Examples
