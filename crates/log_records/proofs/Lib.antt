pub mod KindNumbers
pub mod Tidy
pub mod RoundTrip
pub mod Accepted
pub mod Samples
