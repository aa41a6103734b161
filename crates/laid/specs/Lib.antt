pub mod Views
pub mod Layout
pub mod Lay
pub mod Fits
pub mod Geometry
pub mod Laws
pub mod Page
