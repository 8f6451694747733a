pub mod IntegerTable
pub mod ReplayTable
pub mod SpecTable
