pub mod Counting
pub mod Windowing
