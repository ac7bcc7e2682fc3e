pub mod SourceLaws
pub mod LimitLaws
