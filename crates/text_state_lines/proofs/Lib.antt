pub mod LineParts
pub mod ThreadTexts
pub mod Answers
pub mod Samples
