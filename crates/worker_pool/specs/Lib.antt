pub mod Fresh
pub mod Making
pub mod Prepared
pub mod Worked
pub mod Ended
pub mod Named
pub mod Joined
