pub mod Arrows
pub mod Inner
