pub mod Margins
pub mod Seen
pub mod Triples
pub mod Asked
