pub mod Literals
pub mod Checks
pub mod Passed
pub mod One
