pub mod Accesses
pub mod Pairs
pub mod Chains
