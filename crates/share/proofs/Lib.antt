pub mod Totals
pub mod Parts
