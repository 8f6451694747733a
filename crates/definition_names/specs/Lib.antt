pub mod Names
pub mod IsIndex
pub mod NamedReading
