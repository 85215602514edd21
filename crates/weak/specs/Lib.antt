pub mod Weak
pub mod Answers
