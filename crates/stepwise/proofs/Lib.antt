pub mod Runs
pub mod OneLine
pub mod Regular
pub mod Rectilinear
pub mod Total
