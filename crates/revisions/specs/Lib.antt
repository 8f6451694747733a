pub mod Walks
pub mod Answers
