pub mod Windows
pub mod Eight
