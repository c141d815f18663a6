pub mod Refusals
pub mod Stepping
pub mod Texts
