pub mod TableLaws
pub mod OnePlace
