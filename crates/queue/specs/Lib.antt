pub mod Heaps
pub mod Waiting
