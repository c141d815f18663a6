pub mod Clock
pub mod ClockReach
pub mod Heard
pub mod Conflicts
pub mod FirstConflict
pub mod Samples
pub mod Told
pub mod RowClocks
