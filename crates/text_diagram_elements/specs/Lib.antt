pub mod Diagram
pub mod Inner
