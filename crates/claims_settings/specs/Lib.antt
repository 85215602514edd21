pub mod Usual
pub mod Narrowing
pub mod Course
