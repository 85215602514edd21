pub mod Claims
pub mod Figures
pub mod Promises
pub mod Codes
pub mod Rooms
