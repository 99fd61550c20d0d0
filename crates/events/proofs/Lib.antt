pub mod KnownKinds
pub mod Refusals
pub mod Unique
