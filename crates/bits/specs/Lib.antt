pub mod Select
pub mod Exchange
pub mod Nibbled
