pub mod Bytes
pub mod Play
pub mod Inner
