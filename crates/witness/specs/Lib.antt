pub mod Witness
pub mod Running
pub mod Inner
