pub mod DepthLaws
pub mod SentLaws
