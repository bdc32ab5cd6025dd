pub mod Calls
pub mod Regular
pub mod Rectilinear
pub mod Total
pub mod Laws
