pub mod Order
pub mod Inserted
pub mod Steps
