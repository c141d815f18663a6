pub mod Stores
pub mod Accesses
