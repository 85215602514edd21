pub mod Pairs
pub mod Answers
