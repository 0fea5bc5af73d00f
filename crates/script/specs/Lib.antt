pub mod Lines
pub mod Pieces
pub mod Claim
pub mod inner
