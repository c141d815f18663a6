pub mod LineParts
pub mod SentenceLines
