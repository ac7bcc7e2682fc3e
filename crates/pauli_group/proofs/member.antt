pub mod MemberLaws
pub mod SolveLaws
pub mod FactorLaws
