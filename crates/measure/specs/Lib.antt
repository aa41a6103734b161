pub mod Sweeps
pub mod Bounds
pub mod Asks
pub mod Widths
