pub mod Held
pub mod Screens
