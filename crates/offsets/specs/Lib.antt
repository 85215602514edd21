pub mod Offsets
pub mod Answers
