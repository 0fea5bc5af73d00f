pub mod Encoding
pub mod Written
pub mod inner
pub mod Replay
