pub mod IsPlan
pub mod Standing
