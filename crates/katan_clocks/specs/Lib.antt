pub mod Clocks
pub mod inner
