pub mod Answers
pub mod Tokens
pub mod Lengths
