pub mod Put
pub mod Stored
pub mod Records
pub mod Calls
pub mod Answers
pub mod Contract
