pub mod Parsing
pub mod Writing
pub mod Running
pub mod Promise
pub mod ReadBack
