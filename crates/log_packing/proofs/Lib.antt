pub mod Decoded
pub mod Packing
