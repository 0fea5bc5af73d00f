pub mod Running
pub mod Words
pub mod InWords
