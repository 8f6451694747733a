pub mod Formed
pub mod Aside
