pub mod Tags
pub mod Tests
