pub mod Put
pub mod Count
pub mod Answers
