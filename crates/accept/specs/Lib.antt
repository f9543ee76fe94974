pub mod Places
pub mod Names
pub mod Read
