pub mod Heap
pub mod Compare
pub mod Rises
