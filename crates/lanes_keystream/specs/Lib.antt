pub mod Stream
pub mod Claim
pub mod inner
