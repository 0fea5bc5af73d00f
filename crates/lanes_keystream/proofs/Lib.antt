pub mod Parts
pub mod Places
pub mod Counter
pub mod Batches
pub mod Message
pub mod Faults
pub mod Theorems
