pub mod Stored
pub mod Reads
pub mod Steps
pub mod Storage
