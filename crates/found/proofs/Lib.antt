pub mod Prefixes
pub mod Founds
pub mod Cuts
pub mod One
