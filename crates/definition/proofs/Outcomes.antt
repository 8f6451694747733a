pub mod Orders
pub mod Limits
