pub mod Output
pub mod Maps
