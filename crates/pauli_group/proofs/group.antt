pub mod BuildLaws
pub mod GroupLaws
pub mod GroupedLaws
pub mod KeptLaws
