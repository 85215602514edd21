pub mod Once
pub mod Ground
pub mod Blocks
pub mod Commands
pub mod Ciphers
pub mod Face
