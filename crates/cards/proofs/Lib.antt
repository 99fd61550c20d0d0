pub mod Kind
pub mod Width
pub mod Alone
pub mod Walk
pub mod Unique
pub mod Examples
