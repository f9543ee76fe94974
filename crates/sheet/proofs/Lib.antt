pub mod Lines
pub mod Names
