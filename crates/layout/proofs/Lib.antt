mod Ascents
mod Asked
mod Starting
mod Ends
mod Gathers
mod Lookups
mod Turning
mod Dues
mod Noted
mod Settling
mod Progress
pub mod Whole
mod Alike
pub mod OnSheets
mod Blocks
mod Sweeps
