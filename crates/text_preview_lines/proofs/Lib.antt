pub mod StopWords
pub mod LineParts
pub mod Answers
pub mod Samples
