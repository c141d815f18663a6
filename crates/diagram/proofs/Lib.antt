pub mod Pictures
pub mod OnePicture
