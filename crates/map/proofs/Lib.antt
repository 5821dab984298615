mod Rows
mod Lengths
pub mod OnSheets
