pub mod Chain
pub mod HeaderBytes
pub mod Procedures
pub mod Whole
pub mod Plays
