pub mod LineCall
pub mod Book
pub mod Due
pub mod Order
