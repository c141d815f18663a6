pub mod Turns
pub mod Along
pub mod After
