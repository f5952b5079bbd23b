-- What the evaluator has and does, as the definition of the meaning has it.
pub mod Acts
pub mod Charging
pub mod Waits
pub mod Leads
pub mod Machines
pub mod Tasks
