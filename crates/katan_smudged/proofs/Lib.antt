pub mod Shifts
pub mod Places
pub mod Sources
pub mod Runs
pub mod Loads
pub mod Refusals
