pub mod Laws
pub mod Again
pub mod Passes
pub mod Pair
pub mod Places
