pub mod Positions
pub mod Places
pub mod Numbering
pub mod Indexes
