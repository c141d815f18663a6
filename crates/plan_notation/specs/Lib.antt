pub mod Tokens
pub mod Lexing
pub mod Shown
pub mod Layout
pub mod Text
pub mod Inner
