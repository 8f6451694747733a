pub mod Formed
pub mod Fits
