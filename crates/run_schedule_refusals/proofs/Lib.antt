pub mod WithPick
