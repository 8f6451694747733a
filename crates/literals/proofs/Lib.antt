pub mod Passing
pub mod Listings
pub mod One
