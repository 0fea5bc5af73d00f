pub mod RoundWords
pub mod inner
