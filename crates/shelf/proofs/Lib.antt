pub mod Lines
pub mod Queries
pub mod Margins
pub mod Joined
