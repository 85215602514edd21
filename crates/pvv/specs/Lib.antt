pub mod Pvv
pub mod Answers
