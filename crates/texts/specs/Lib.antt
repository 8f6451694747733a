pub mod Text
pub mod EscapeEnds
pub mod Codes
