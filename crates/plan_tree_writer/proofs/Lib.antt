pub mod Keys
pub mod Areas
pub mod Shapes
pub mod Steps
pub mod Rooms
pub mod Turns
pub mod ByTag
