pub mod Packing
pub mod WordBefore
