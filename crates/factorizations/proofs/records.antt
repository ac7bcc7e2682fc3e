pub mod PutLaws
pub mod RecordLaws
