-- What the drivers of tasks keep.
pub mod Waits
