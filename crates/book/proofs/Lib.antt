pub mod Bytes
pub mod Answers
pub mod DueMeans
pub mod OneCall
pub mod Order
pub mod SameLengths
