pub mod Printed
pub mod inner
