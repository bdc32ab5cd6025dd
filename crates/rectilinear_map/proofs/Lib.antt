pub mod Checks
pub mod Placing
pub mod Total
pub mod InUse
pub mod OwnGhosts
