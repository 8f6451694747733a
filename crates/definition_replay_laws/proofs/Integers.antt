pub mod Digits
pub mod WrittenLaws
pub mod Grouped
pub mod IntegerSteps
