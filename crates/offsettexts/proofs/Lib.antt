pub mod Laws
pub mod Fill
