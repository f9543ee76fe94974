pub mod Shared
pub mod Unscored
pub mod RowStarts
pub mod Pool
pub mod Refined
pub mod HalfPoints
