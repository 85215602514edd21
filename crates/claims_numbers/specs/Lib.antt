pub mod Numbers
pub mod Rooms
pub mod Order
