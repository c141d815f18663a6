pub mod Digits
pub mod Tells
pub mod Coded
