pub mod Whole
pub mod Samples
