pub mod WorkLaws
pub mod WalkLaws
pub mod LevelCalls
