pub mod Answer
pub mod ExecutedOn
pub mod Inner
pub mod Played
