pub mod Sets
pub mod Sizes
pub mod Subsets
pub mod Parts
