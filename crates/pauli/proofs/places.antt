pub mod Halves
pub mod Members
