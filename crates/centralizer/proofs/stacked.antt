pub mod Behind
pub mod StackedLaws
