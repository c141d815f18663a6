pub mod Bits
pub mod Refusal
pub mod Area
pub mod Version
pub mod Inner
