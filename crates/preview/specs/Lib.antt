pub mod Preview
pub mod PlaysAs
pub mod Examples
pub mod Answer
pub mod Inner
