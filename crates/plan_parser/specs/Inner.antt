-- What only inner contracts speak of: no reader of the entries' promises needs it. Assumes nothing.
pub mod Stacks
pub mod Making
pub mod Reading
pub mod Turning
