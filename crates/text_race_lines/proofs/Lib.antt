pub mod AccessKinds
pub mod LineParts
pub mod Records
pub mod Samples
