pub mod KeptListLaws
