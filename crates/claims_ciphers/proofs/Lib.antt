pub mod Undone
pub mod Keys
pub mod ParityBits
pub mod Refusals
pub mod Rows
pub mod Tables
pub mod Figures
pub mod Parity
