pub mod Inputs
pub mod Outputs
pub mod Splines
pub mod Regular
pub mod Rectilinear
pub mod Total
pub mod Laws
