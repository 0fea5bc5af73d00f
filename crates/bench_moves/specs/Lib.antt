pub mod Moves
pub mod inner
