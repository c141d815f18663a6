pub mod Order
pub mod Listed
pub mod WholeList
pub mod Examples
pub mod Inner
