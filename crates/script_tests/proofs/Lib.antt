-- What the drivers of tasks need.
pub mod Found
