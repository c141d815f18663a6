pub mod Standing
pub mod InWords
