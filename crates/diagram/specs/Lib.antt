pub mod Picture
pub mod inner
