pub mod Sentences
pub mod Tables
pub mod Demands
pub mod TurnedAway
pub mod Taken
pub mod Merging
pub mod Written
pub mod Least
