pub mod Others
pub mod Depths
pub mod Gathers
pub mod Along
pub mod Told
