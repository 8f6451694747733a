pub mod Strings
pub mod Window
