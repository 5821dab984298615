pub mod Nets
pub mod Tops
pub mod Waits
pub mod Going
pub mod Peaked
pub mod OfGraph
