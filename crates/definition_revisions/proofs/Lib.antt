pub mod computed
pub mod laws
