pub mod Sum
pub mod Table
