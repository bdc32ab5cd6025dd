pub mod Ghosts
pub mod Room
pub mod Figures
