pub mod Json
pub mod Numbers
pub mod Reading
pub mod Law
