pub mod MoveWords
