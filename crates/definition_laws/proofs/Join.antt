pub mod Seam
pub mod Assoc
pub mod Laid
pub mod EntrySplit
pub mod JoinLaw
