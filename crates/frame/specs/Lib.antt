pub mod Layout
pub mod Reader
pub mod Part
pub mod AsBefore
