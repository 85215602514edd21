pub mod Fips46
pub mod Rows
