pub mod MoreBits
pub mod Action
pub mod Sets
pub mod Places
pub mod Rows
pub mod PauliTheorems
pub mod CondenseLaws
pub mod BodyLaws
