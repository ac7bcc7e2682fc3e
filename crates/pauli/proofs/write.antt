pub mod Condensed
pub mod Puts
pub mod Writers
