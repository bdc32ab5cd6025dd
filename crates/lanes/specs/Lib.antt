pub mod Lanes
pub mod Groups
