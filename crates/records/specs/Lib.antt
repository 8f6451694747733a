pub mod Counts
pub mod Written
pub mod Rows
