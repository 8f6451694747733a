pub mod Laws
pub mod Runs
pub mod Codes
pub mod EscapeEndLaws
