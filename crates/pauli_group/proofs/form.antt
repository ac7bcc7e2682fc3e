pub mod FormLaws
pub mod MadeLaws
