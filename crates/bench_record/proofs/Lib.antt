pub mod Parts
pub mod Same
pub mod Codec
