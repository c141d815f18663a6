pub mod Samples
pub mod Digits
pub mod Digital
pub mod LineEnds
pub mod LineParts
pub mod ChangedEnds
