pub mod BitLaws
pub mod RefusalLaws
pub mod AreaLaws
pub mod LowestLaws
pub mod Filled
pub mod Turns
pub mod Ranges
