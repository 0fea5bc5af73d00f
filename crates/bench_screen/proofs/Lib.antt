mod Turns
pub mod Theorems
