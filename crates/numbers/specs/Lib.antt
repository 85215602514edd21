pub mod Numbers
pub mod Promise
pub mod Answers
