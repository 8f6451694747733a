pub mod OpeningLaws
pub mod LiteralLaws
pub mod LiteralFound
pub mod RunLaws
pub mod LiteralSteps
pub mod ListLaw
pub mod ListOne
