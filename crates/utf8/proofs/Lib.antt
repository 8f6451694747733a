pub mod Table
pub mod Classes
pub mod Steps
