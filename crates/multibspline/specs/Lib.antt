pub mod Numbers
pub mod Thomas
pub mod Line
pub mod Records
pub mod Total
pub mod Place
pub mod Scratch
pub mod ByNumber
