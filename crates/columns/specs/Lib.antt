pub mod Wants
pub mod Columns
pub mod Laws
pub mod Tracks
pub mod Tables
