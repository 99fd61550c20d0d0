pub mod Turn
pub mod NeverFourteen
