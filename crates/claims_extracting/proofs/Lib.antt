pub mod Hex
pub mod Extracting
pub mod Ahead
pub mod Blind
pub mod Figures
