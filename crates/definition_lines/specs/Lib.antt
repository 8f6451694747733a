pub mod Lines
pub mod Why
