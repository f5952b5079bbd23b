-- What a task that runs has, and what its parts do with it.
pub mod Seen
pub mod Ends
pub mod Places
