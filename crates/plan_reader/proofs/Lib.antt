pub mod Counts
pub mod VolatileFields
pub mod Headings
pub mod HeldLaws
pub mod OneMore
pub mod Steps
