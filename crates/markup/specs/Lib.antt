pub mod Spans
pub mod Attributes
pub mod Tags
pub mod Views
pub mod First
pub mod Form
