pub mod Characters
pub mod Texts
pub mod Exact
pub mod Joining
pub mod Whole
pub mod Writings
pub mod Classes
