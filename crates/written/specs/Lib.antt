pub mod Puts
pub mod Turns
pub mod Going
pub mod Answers
