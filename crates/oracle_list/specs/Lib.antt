pub mod Words
pub mod Cells
pub mod Agree
