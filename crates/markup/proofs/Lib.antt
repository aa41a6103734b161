pub mod Ends
pub mod Firsts
pub mod Forms
pub mod Runs
pub mod Scanned
pub mod Steps
pub mod Words
