pub mod From
pub mod Rows
pub mod Turns
pub mod Solving
pub mod Groups
pub mod Systems
