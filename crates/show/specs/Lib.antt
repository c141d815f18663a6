pub mod Show
pub mod Inner
