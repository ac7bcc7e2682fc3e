pub mod Algebra
pub mod Products
pub mod SignedLaws
pub mod CrossLaws
