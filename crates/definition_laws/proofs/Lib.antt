pub mod Moves
pub mod Characters
pub mod Outcomes
pub mod Join
pub mod Rows
pub mod Formed
