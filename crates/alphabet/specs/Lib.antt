pub mod Alphabet
