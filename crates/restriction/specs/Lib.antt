pub mod Restriction
