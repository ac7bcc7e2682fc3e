pub mod Calls
pub mod CallContracts
pub mod Commuting
pub mod Stacked
