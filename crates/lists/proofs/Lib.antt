pub mod Tests
pub mod Lists
pub mod Distinct
pub mod Written
pub mod Walk
pub mod Tested
pub mod Chains
