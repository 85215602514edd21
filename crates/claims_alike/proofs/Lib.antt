pub mod Pieces
pub mod Sealed
pub mod Alike
