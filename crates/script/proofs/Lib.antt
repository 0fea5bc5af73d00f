pub mod Begun
pub mod Room
pub mod Taken
pub mod Turns
pub mod Cut
pub mod Whole
