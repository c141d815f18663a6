pub mod PlaysAs
pub mod Examples
pub mod Found
pub mod Entry
