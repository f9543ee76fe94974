pub mod Puts
pub mod Numbers
pub mod Lines
pub mod Over
