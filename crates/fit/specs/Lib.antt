pub mod Asking
pub mod Numbers
pub mod Sheets
pub mod Lawful
