pub mod Digits
pub mod Letters
pub mod One
pub mod Lent
