pub mod FileLength
pub mod Records
pub mod Answers
