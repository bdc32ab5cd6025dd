pub mod Cells
pub mod Floor
pub mod Inner
pub mod Lengths
pub mod Points
pub mod Straight
