pub mod Chained
pub mod EverySet
pub mod Computed
pub mod Examples
