-- What only inner contracts speak of: no reader of the entries' promises needs it. Assumes nothing.
pub mod Frames
pub mod Memory
pub mod PackedSlots
pub mod Refocusing
pub mod Turns
pub mod Machine
pub mod Playing
