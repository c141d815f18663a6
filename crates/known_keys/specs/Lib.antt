pub mod WriteKeys
pub mod KnownKeys
pub mod Examples
