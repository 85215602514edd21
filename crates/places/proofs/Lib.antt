pub mod Readers
pub mod Stages
pub mod Calls
