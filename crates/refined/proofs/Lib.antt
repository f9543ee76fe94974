pub mod Tables
pub mod Sides
pub mod Outside
pub mod Weight
pub mod Answers
