pub mod Refused
pub mod Counts
pub mod Numbers
pub mod Rooms
pub mod Order
