pub mod FitChecks
pub mod Total
