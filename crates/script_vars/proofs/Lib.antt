mod Kept
mod Found
pub mod Again
