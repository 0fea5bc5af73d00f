pub mod Digits
pub mod Form
pub mod scanner
