pub mod Taken
pub mod Blank
pub mod Stock
pub mod Steps
pub mod Done
pub mod Cells
pub mod Planned
