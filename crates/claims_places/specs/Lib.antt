pub mod FieldTexts
pub mod Begins
pub mod Ids
pub mod Leftovers
pub mod Claims
