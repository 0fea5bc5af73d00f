pub mod Doubled
pub mod KeyWords
pub mod Lanes
