pub mod Sheet
pub mod Listing
pub mod SheetText
pub mod Pool
pub mod Refusals
pub mod Calls
