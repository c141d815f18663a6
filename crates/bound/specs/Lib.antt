pub mod NoMoreMoves
pub mod Inner
