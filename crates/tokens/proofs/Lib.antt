pub mod TokenLaws
pub mod PlainTokens
pub mod Lessening
