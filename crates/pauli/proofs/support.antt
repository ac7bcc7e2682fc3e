pub mod Lists
pub mod SupportLaws
pub mod Walk
