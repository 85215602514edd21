pub mod KeyBox
pub mod Answers
