pub mod CallLaws
pub mod BoundLaws
pub mod Example
