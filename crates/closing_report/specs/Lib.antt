pub mod Decimal
pub mod Lines
pub mod InputRolls
pub mod Split
pub mod Bound
pub mod Contract
pub mod Example
pub mod Listing
