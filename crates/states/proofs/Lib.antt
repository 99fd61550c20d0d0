pub mod Front
pub mod SameWords
pub mod ReadLaws
pub mod ShortLaws
pub mod Unique
