pub mod OnePass
pub mod Answers
