pub mod Square
pub mod Names
pub mod Own
