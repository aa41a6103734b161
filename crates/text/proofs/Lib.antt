pub mod Found
pub mod Kept
pub mod Counted
pub mod Scanning
