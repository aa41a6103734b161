pub mod Deal
pub mod Lift
pub mod Marks
pub mod Walk
pub mod Give
pub mod Whole
