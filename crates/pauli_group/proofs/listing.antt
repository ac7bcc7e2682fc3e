pub mod ListingLaws
pub mod PageLaws
