pub mod Terms
pub mod Written
pub mod Alike
