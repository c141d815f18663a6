pub mod Record
pub mod Packed
pub mod Refusals
