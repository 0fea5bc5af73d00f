pub mod Answers
pub mod Inputs
pub mod inner
