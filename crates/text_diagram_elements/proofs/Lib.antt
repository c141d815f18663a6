pub mod Together
pub mod NextRecord
pub mod Races
