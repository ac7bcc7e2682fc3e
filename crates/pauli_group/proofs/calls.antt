pub mod CallLaws
pub mod ReadBackLaws
