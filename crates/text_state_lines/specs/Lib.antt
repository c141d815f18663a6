pub mod Lines
pub mod Told
pub mod Inner
