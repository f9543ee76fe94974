pub mod Pieces
pub mod Words
pub mod Values
pub mod Numerals
pub mod Halves
pub mod Cells
