pub mod Growth
pub mod Table
pub mod Decimal
pub mod Room
pub mod Counting
pub mod Unique
