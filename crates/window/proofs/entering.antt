pub mod Values
pub mod EnteringLaws
