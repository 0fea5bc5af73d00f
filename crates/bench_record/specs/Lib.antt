pub mod Fields
pub mod Codec
pub mod Checks
pub mod Kinds
