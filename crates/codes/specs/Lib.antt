pub mod Codes
pub mod Answers
