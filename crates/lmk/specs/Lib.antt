pub mod Lmk
