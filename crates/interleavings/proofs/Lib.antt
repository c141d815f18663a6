pub mod GoingOn
pub mod GoingBack
pub mod Answers
pub mod Counting
