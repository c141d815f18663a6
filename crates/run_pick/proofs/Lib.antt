pub mod GoesOn
pub mod Answers
pub mod Steps
