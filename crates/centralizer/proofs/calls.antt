pub mod PutLaws
pub mod CheckedLaws
pub mod Commuting
