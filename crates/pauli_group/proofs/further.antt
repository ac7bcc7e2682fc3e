pub mod FurtherLaws
pub mod ReadLaws
