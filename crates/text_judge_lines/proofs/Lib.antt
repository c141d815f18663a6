pub mod KindTests
pub mod LastConflicts
pub mod Answers
pub mod OneText
