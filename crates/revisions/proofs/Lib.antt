pub mod Walking
pub mod Running
pub mod Calls
pub mod One
