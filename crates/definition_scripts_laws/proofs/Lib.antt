pub mod Literals
pub mod Cut
pub mod Listing
pub mod Computed
