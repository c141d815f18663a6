pub mod Words
pub mod LineParts
pub mod FirstRecords
