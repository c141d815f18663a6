-- What only inner contracts speak of: no reader of the entries' promises needs it. Assumes nothing.
pub mod Small
pub mod Answered
