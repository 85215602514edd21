pub mod Figures
pub mod Claims
pub mod Cores
pub mod Counted
