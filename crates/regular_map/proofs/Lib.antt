pub mod Steps
pub mod Placing
pub mod Builds
pub mod Total
pub mod InUse
pub mod OneQuery
