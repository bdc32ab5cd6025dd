pub mod Points
pub mod Example
