pub mod Cutting
pub mod Filling
pub mod Counting
pub mod NamedList
