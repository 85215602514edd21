pub mod Rows
pub mod Iterations
pub mod Undo
pub mod ParityBits
