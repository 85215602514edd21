pub mod Bk
