pub mod Formed
pub mod FirstBytes
pub mod Common
pub mod Fitting
