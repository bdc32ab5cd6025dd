pub mod Place
pub mod Weights
pub mod Straight
