pub mod Axis
pub mod FitChecks
pub mod Total
