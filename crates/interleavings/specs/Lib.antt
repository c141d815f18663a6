pub mod Answer
pub mod Count
pub mod Inner
