pub mod Shelves
pub mod Answers
pub mod Margins
pub mod Joined
