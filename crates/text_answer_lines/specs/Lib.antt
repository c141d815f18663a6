pub mod Texts
pub mod inner
