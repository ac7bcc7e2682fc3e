pub mod FormLaws
pub mod ChecksLaws
