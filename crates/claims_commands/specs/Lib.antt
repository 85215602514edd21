pub mod Numbers
pub mod Runs
pub mod Claims
pub mod Witnesses
pub mod Cores
