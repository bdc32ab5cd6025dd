pub mod Outside
pub mod Surface
