pub mod Bits
pub mod Division
pub mod Tables
pub mod Damage
