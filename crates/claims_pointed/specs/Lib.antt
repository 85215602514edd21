pub mod RowParts
pub mod Rows
