pub mod Starts
pub mod Items
pub mod Spots
pub mod Banks
pub mod Turns
pub mod Worlds
pub mod Sheets
