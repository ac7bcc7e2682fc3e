pub mod Steps
pub mod LevelLaws
pub mod ReadBack
pub mod ReadOnly
