pub mod Refusals
pub mod Moves
pub mod Once
pub mod Running
