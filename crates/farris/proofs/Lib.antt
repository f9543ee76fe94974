pub mod Bounds
pub mod Refusals
pub mod Distances
