pub mod Reading
pub mod Writing
pub mod Patterns
pub mod RoundTrip
