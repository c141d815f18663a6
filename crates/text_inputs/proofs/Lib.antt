pub mod Bytes
pub mod Given
pub mod RoundTrip
