pub mod Sequence
pub mod Part
pub mod Writer
pub mod RoundTrip
