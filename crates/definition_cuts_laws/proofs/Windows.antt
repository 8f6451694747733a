pub mod Window
pub mod WindowEscapes
pub mod Closed
pub mod WindowFields
pub mod WindowTexts
