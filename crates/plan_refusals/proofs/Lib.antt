pub mod Stages
pub mod Bounds
