pub mod Samples
pub mod ShownTokens
pub mod Tested
pub mod Found
pub mod Widths
pub mod ShownCodes
pub mod TextEnd
