pub mod SpecLaws
pub mod SpecWhole
pub mod SpecExact
pub mod SpecSteps
