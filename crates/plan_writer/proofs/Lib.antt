pub mod Stores
pub mod Plans
pub mod HeldAreas
