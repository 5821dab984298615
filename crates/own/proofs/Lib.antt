pub mod Found
pub mod Leaving
