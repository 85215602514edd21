pub mod Runs
pub mod Closing
pub mod Whole
pub mod Readers
pub mod Classes
