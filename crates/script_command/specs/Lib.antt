pub mod Written
pub mod Reads
pub mod Answer
pub mod scanner
