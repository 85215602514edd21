pub mod PvvDigits
pub mod Answers
