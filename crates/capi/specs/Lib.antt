pub mod Code
pub mod CallContracts
