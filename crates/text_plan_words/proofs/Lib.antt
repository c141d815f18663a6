pub mod Parts
pub mod Areas
