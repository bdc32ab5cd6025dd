pub mod Map
pub mod Eval
pub mod Sound
pub mod Ghosts
pub mod Records
