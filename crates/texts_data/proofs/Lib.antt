pub mod Formats
pub mod ValidationData
pub mod WeakLists
pub mod Maximum
pub mod Offsets
