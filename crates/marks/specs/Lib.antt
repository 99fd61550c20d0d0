pub mod Window
pub mod Meaning
pub mod AtOnce
