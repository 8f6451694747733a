pub mod Holding
pub mod Scanned
pub mod Lining
pub mod AllLines
pub mod Telling
