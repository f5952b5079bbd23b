-- What the requests of calls are, and what their faults throw.
pub mod Faults
pub mod Requests
