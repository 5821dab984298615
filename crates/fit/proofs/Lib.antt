mod Ascents
pub mod Asked
pub mod Offers
mod Found
mod Outcomes
mod Tightest
