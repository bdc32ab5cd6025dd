pub mod Batches
pub mod Fits
pub mod Lists
pub mod Queries
