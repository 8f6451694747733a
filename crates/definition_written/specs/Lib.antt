pub mod Written
pub mod ReadsBack
pub mod Passes
