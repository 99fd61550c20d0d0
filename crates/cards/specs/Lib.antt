pub mod Payload
pub mod Walk
