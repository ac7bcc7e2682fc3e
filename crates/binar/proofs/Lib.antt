pub mod Lists
pub mod Without
