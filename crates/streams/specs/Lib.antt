pub mod Table
pub mod Walk
pub mod SameStream
