pub mod Naming
pub mod Laws
pub mod Dropped
pub mod Exact
pub mod Ends
pub mod Unmoved
pub mod Fetches
