pub mod Merging
pub mod Unions
pub mod Places
pub mod Updates
pub mod Choice
pub mod Runs
pub mod Answered
