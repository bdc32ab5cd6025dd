pub mod Knot
pub mod Basis
pub mod Between
