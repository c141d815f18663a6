pub mod NextArrow
