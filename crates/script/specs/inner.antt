pub mod Kept
pub mod Steps
