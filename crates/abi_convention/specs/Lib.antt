pub mod Convention
pub mod Inner
