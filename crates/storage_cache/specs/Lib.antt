pub mod Counted
pub mod Cached
pub mod Looks
pub mod CachedCode
pub mod Standing
