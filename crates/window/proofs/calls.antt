pub mod CallLaws
pub mod BehindLaws
pub mod HistoryLaws
pub mod WindowLaw
