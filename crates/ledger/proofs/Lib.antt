pub mod Stages
pub mod DueBytes
pub mod Others
