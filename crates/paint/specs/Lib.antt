pub mod Checks
pub mod Painting
pub mod Well
