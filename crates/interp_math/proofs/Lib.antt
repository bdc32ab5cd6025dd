pub mod Four
pub mod Summed
pub mod Tables
