pub mod Charge
pub mod Figures
