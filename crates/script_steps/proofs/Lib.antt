pub mod Stripped
pub mod Begun
pub mod Exits
pub mod Links
pub mod Parts
pub mod Run
pub mod Turns
pub mod Weights
