pub mod Texts
pub mod Short
