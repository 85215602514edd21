pub mod Calls
pub mod Verdicts
pub mod Exchange
pub mod Told
pub mod Witnesses
