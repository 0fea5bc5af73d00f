pub mod Chains
pub mod Origin
pub mod Claim
