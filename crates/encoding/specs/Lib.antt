pub mod Encodings
pub mod Reader
pub mod AsBefore
