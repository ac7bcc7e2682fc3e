pub mod Ends
pub mod Worked
pub mod Slots
pub mod Call
