pub mod StatusWords
