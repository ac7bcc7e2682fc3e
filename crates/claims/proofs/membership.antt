pub mod ClaimLaws
pub mod CallLaws
