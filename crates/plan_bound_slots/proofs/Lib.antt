pub mod TermParts
pub mod Turns
pub mod Conditions
pub mod Expressions
pub mod Lists
pub mod Roots
