pub mod Words
pub mod Runs
pub mod Lines
pub mod Filled
pub mod Rows
pub mod Contents
