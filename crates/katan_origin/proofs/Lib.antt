pub mod Formulas
pub mod Followed
pub mod Places
pub mod Plain
pub mod Counts
pub mod Theorems
