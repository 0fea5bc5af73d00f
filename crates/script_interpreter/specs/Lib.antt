pub mod Interpreter
pub mod Session
