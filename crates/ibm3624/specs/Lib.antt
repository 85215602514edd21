pub mod Ibm3624
pub mod Answers
