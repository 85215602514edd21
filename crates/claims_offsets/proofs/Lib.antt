pub mod Verdicts
pub mod Texts
pub mod Digits
pub mod Converse
pub mod Cores
pub mod Counted
