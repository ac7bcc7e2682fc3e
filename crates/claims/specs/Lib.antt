pub mod Calls
pub mod ClaimContracts
