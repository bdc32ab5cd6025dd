pub mod Lens
pub mod Guards
pub mod Evaluated
pub mod Total
