pub mod OperateLaws
