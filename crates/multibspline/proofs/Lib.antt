pub mod Sweeps
pub mod Line
pub mod Total
pub mod Thomas
pub mod ByNumber
