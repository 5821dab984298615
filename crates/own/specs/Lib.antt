pub mod Lasting
pub mod Twins
pub mod Reached
pub mod Highest
