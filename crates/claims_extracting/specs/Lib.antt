pub mod Extracting
pub mod Blind
pub mod Figures
