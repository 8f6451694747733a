pub mod ListShown
pub mod CutShown
pub mod CutListShown
pub mod ListingShown
pub mod LiteralRows
pub mod LiteralsByPython
