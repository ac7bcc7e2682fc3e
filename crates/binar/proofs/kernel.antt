pub mod Bits
pub mod Shape
pub mod Rows
pub mod OneRow
pub mod AllRows
pub mod Found
