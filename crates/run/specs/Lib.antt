pub mod Numbers
pub mod Records
pub mod Views
pub mod Called
pub mod Replayed
