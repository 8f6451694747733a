pub mod Placed
pub mod Bounds
pub mod Joined
pub mod Fitting
pub mod Plain
