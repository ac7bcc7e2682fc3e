pub mod StandardLaws
