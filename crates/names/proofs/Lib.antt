pub mod Scans
pub mod Counting
pub mod Filling
pub mod Indexes
pub mod Runs
pub mod Answers
