pub mod Telling
pub mod Saying
pub mod Pair
pub mod Stepping
pub mod Seen
pub mod GateSteps
pub mod Laws
