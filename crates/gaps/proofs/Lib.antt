pub mod Prefixes
pub mod Gaps
