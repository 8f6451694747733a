pub mod Parts
pub mod Goods
