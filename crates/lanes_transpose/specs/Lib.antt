pub mod Matrix
pub mod inner
