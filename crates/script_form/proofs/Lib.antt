pub mod Blocks
pub mod Lengths
mod Runs
pub mod Steps
mod Fronts
pub mod Scans
