pub mod Names
pub mod Board
pub mod Lines
pub mod Runs
pub mod Backs
pub mod Fronts
pub mod Switches
pub mod Apart
