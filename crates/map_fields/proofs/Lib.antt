pub mod Firsts
pub mod FloatRows
pub mod FirstLines
