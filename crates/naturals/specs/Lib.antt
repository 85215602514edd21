pub mod Naturals
pub mod Answers
