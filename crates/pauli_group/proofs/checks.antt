pub mod Room
pub mod OneList
pub mod RollsLaws
pub mod TwoLists
pub mod Question
