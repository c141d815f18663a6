pub mod Areas
pub mod Answers
pub mod Settling
