-- The faults of a script, part by part.
pub mod First
pub mod Parts
pub mod Sight
pub mod Sorts
pub mod Told
