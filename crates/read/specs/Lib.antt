pub mod Read
pub mod Answer
pub mod Inner
