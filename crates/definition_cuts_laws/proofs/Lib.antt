pub mod Windows
pub mod Tokens
pub mod Cuts
pub mod Plan
