pub mod Keeping
pub mod Items
mod Turning
pub mod Lanes
mod Backs
mod Said
mod Whole
