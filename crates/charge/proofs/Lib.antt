pub mod Charged
pub mod Prices
