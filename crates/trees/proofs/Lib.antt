pub mod Trees
pub mod Merging
