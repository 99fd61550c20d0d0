pub mod Recoveries
