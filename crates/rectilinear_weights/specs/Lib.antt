pub mod Ghosts
pub mod Weights
pub mod Records
