pub mod Kept
pub mod Place
pub mod Inner
