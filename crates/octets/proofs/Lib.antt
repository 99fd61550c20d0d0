pub mod Bools
pub mod PastTheEnd
pub mod Taken
pub mod OneMore
pub mod Parts
pub mod Order
pub mod Unique
