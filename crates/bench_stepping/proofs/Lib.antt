pub mod Effects
pub mod ReadCases
