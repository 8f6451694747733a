pub mod Heads
pub mod Good
