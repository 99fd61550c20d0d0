pub mod Values
pub mod Conversion
pub mod Range
