pub mod LeftOut
pub mod Moves
pub mod Schedule
pub mod SideBySide
pub mod Conflict
pub mod Inner
