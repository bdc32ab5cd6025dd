pub mod Slopes
pub mod Columns
