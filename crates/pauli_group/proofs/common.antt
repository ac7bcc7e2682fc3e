pub mod SharedLaws
pub mod PartLaws
