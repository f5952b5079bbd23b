pub mod Came
pub mod Classed
pub mod Evaluated
