pub mod Screen
pub mod Claim
