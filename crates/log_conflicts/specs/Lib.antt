pub mod Conflicts
pub mod Judge
