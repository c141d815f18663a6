pub mod Order
pub mod Ways
pub mod All
pub mod Listed
pub mod WholeList
pub mod Counted
pub mod Examples
