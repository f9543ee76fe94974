pub mod Fields
pub mod Insert
pub mod Kept
pub mod Rising
pub mod Shifting
pub mod Tops
pub mod Totals
