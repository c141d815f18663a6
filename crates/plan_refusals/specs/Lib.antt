pub mod Answer
pub mod Small
