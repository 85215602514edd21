pub mod DataTexts
pub mod DataWritings
