pub mod StageTexts
pub mod StageWritings
