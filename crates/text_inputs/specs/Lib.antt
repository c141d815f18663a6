pub mod Plans
pub mod Schedules
pub mod Numerals
