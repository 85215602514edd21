pub mod Pairing
pub mod Answers
