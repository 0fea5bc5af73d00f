mod Fits
pub mod Exact
pub mod Examples
