pub mod Steps
pub mod Reads
pub mod Writes
pub mod Changes
