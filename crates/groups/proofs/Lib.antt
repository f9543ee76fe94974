pub mod Candidates
pub mod Listing
pub mod WaysOut
