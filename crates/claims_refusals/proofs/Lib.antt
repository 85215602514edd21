pub mod Refusals
pub mod Verifying
