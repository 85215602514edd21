pub mod Schedule
pub mod Choices
