pub mod Decided
pub mod Parts
pub mod Read
pub mod Found
pub mod Cut
pub mod Pieces
pub mod Bounded
pub mod Joined
