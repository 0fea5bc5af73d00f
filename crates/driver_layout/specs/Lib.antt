pub mod Layout
pub mod ReadBack
