pub mod Readback
pub mod Passes
