pub mod OffsetTexts
