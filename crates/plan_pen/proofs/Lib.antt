pub mod LookLaws
pub mod PenLaws
