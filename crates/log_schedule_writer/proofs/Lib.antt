pub mod ForkTests
pub mod Counts
pub mod Picks
pub mod Whole
