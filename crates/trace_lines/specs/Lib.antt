pub mod Steps
pub mod Lines
