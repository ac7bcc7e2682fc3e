pub mod ScanLaws
pub mod PhaseLaws
