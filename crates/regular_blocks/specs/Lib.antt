pub mod Map
pub mod Eval
pub mod Checks
pub mod Records
