pub mod PackedWords
