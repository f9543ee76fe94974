pub mod Answers
pub mod Shared
pub mod Refined
pub mod Values
