pub mod Counts
pub mod Heads
