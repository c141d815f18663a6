pub mod Syntax
pub mod Format
pub mod Trees
pub mod Slots
pub mod Refusals
pub mod Check
pub mod Inner
