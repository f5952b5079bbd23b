pub mod Paired
pub mod Turns
