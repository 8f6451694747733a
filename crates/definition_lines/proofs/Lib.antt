pub mod Shown
pub mod WhyShown
pub mod Limits
pub mod LineRows
pub mod LinesByPython
