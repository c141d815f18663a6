pub mod Lengths
pub mod Raced
pub mod Answers
pub mod OneText
