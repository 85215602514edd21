pub mod Endings
pub mod Answers
