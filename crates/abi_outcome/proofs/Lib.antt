pub mod Same
pub mod Threads
