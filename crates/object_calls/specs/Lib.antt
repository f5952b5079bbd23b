pub mod Admission
pub mod Numbered
pub mod Fetched
