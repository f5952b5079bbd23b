pub mod Numbers
pub mod Indexed
