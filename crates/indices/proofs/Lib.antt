pub mod Triples
pub mod Margins
pub mod Seen
pub mod Values
pub mod Parted
pub mod Clean
