pub mod LastRecord
pub mod Agreed
pub mod Entry
pub mod Marked
pub mod Versions
