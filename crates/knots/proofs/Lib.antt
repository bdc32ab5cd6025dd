pub mod Compare
pub mod Increase
pub mod Counts
pub mod Eights
pub mod Totals
pub mod NanKnots
pub mod Places
pub mod Points
