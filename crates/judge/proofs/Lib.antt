pub mod PlaceNumbers
pub mod PortRows
pub mod RecordPorts
pub mod Table
pub mod Going
pub mod Here
pub mod Next
pub mod Answered
