pub mod KernelLaws
pub mod FurtherLaws
