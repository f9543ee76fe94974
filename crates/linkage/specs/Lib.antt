pub mod Blocks
pub mod Calls
