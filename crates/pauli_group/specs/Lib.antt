pub mod WorkArea
pub mod Promises
pub mod Answers
pub mod Calls
pub mod CallContracts
pub mod Inner
