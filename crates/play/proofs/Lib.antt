pub mod EveryMove
pub mod Answers
pub mod Explores
pub mod Entry
pub mod Ran
pub mod Executed
pub mod Moves
pub mod Threads
