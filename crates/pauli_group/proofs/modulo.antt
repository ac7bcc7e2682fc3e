pub mod RemainderLaws
pub mod ModuloLaws
