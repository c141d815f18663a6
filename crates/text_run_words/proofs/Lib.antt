pub mod Parts
pub mod Witnessed
pub mod Runs
