pub mod Handing
pub mod Roots
pub mod Terms
pub mod Closing
