pub mod LastPick
