pub mod Expressions
pub mod Conditions
