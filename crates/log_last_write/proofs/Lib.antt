pub mod WriteTests
pub mod LastWrites
