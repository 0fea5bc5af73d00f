mod Turns
pub mod Fitted
pub mod ReadBack
pub mod Fits
