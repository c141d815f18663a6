pub mod WrongRecords
pub mod Refused
pub mod Fours
