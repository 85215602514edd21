pub mod BkFields
pub mod Answers
