pub mod Answers
pub mod WaysOut
