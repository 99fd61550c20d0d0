pub mod Output
pub mod Insertion
pub mod Removal
pub mod RoundTrip
pub mod AsBefore
