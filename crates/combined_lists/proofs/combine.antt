pub mod RollLaws
pub mod BytesLaws
pub mod CombineLaws
pub mod CombineTheoremLaws
