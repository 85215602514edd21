pub mod Pins
pub mod Answers
