pub mod Stores
pub mod Clocks
pub mod Histories
pub mod Columns
pub mod AllRounds
