pub mod Axes
pub mod Making
pub mod Asking
pub mod Digits
