pub mod Answers
pub mod Inputs
pub mod FirstBytes
pub mod PrintedP
