pub mod ProductLaws
pub mod JoinedLists
pub mod ReadBack
pub mod ProductTheorems
