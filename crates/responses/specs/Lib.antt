pub mod Responses
pub mod Answers
