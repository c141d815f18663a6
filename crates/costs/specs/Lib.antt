pub mod Cost
pub mod Calls
pub mod Bound
pub mod Inner
