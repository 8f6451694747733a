pub mod Moves
pub mod Outcomes
pub mod Computed
