pub mod Lines
pub mod Put
pub mod Natural
pub mod Over
