pub mod QueryLines
pub mod FirstThree
