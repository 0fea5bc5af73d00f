pub mod Follows
pub mod Memory
