pub mod WitnessLaws
pub mod AbsenceLaws
