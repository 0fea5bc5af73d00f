pub mod AtOnce
pub mod Rounds
pub mod Shifts
pub mod Steps
