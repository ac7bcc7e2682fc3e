pub mod StoredLaws
pub mod ResultLaws
pub mod PieceLaws
