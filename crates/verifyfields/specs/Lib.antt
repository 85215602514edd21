pub mod VerifyFields
pub mod Answers
