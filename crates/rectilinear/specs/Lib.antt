pub mod Fit
pub mod Total
