pub mod OfQuery
pub mod OfBlock
mod OfSingle
