pub mod KeyLanes
pub mod Blocks
pub mod Faults
