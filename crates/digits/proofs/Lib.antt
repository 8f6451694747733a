pub mod Digits
mod Counted
