pub mod Rows
pub mod Line
