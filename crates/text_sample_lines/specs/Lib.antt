pub mod DataFile
pub mod Inner
