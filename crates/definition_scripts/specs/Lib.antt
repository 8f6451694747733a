pub mod Opening
pub mod IsRun
pub mod Literals
pub mod IsCut
pub mod Cut
pub mod Keywords
pub mod Listing
pub mod CutList
