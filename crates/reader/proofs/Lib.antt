pub mod Before
pub mod Rows
pub mod Slots
pub mod Parts
pub mod Values
pub mod Answers
