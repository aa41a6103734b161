pub mod Spots
pub mod Raised
