-- What opens a front.
pub mod Classes
