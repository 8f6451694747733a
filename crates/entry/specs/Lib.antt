pub mod Literals
pub mod Answers
