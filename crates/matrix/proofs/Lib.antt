pub mod Places
pub mod Checks
pub mod Scores
pub mod Touched
pub mod Tables
