pub mod Leaning
pub mod Nets
pub mod Totals
pub mod Waiting
