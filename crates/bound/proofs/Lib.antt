pub mod Counting
pub mod CallSets
pub mod Sets
pub mod Bodies
pub mod Rounds
pub mod Answers
