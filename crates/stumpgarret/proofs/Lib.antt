pub mod One
pub mod Indexes
