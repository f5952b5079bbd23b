pub mod Numbers
pub mod Words
pub mod Asked
pub mod Seen
pub mod Matched
pub mod Described
