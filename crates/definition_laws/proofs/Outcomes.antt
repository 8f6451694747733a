pub mod Outcomes
pub mod Leaving
pub mod Placed
pub mod Room
pub mod Tight
pub mod Lent
pub mod ViewLaw
