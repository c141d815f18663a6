pub mod RefusalChain
pub mod Passed
