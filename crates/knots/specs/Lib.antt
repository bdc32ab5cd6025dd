pub mod Knots
pub mod Joined
pub mod Place
pub mod Checks
pub mod NanKnots
pub mod Window
