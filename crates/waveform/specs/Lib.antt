pub mod Comtrade
pub mod Inner
