pub mod Decimals
pub mod Added
