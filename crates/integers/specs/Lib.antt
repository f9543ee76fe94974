pub mod Integers
pub mod Range
