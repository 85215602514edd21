pub mod Texts
pub mod Laws
