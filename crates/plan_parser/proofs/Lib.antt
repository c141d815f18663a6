pub mod StackLaws
pub mod FitLaws
pub mod TermLaws
pub mod MakeLaws
pub mod TurnLaws
pub mod DirectLaws
pub mod RunLaws
