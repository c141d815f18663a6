pub mod Goals
pub mod Parser
pub mod Plan
