pub mod Counting
pub mod HeadLaws
