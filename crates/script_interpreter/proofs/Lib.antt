pub mod Taken
pub mod Same
pub mod NoBench
