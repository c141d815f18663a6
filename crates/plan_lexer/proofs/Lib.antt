pub mod KeptLaws
pub mod PlaceLaws
