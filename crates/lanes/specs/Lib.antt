pub mod Many
pub mod inner
