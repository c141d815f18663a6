pub mod Answer
pub mod inner
