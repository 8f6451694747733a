pub mod Revisions
pub mod IsCompared
