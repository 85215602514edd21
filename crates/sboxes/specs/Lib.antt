pub mod Permuted
