pub mod AloneLaws
pub mod Written
