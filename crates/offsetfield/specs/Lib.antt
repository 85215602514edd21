pub mod OffsetField
