pub mod Numbers
pub mod Found
pub mod Sheets
pub mod Small
pub mod InC
pub mod Refined
