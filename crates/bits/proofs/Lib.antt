pub mod Xor
pub mod Select
pub mod Linear
pub mod Nibbled
