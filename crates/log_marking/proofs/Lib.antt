pub mod PortRows
pub mod PortTests
pub mod Pass
