pub mod Map
pub mod Place
pub mod Total
pub mod Records
pub mod InUse
pub mod OneQuery
pub mod Laws
