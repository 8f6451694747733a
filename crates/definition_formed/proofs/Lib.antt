pub mod Computed
pub mod Characters
pub mod Formed
