pub mod KeyTexts
pub mod KeyWritings
