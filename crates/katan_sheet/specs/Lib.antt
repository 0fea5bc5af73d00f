pub mod Three
pub mod Cells
pub mod Sheet
pub mod Answers
pub mod Claim
