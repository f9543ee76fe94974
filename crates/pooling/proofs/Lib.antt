pub mod Places
pub mod Sums
pub mod Texts
pub mod Readings
pub mod Sheets
