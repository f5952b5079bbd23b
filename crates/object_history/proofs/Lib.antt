mod GoingOn
mod SoFar
pub mod WellSaid
pub mod Alike
pub mod Entries
mod Beginning
pub mod SaidSoFar
pub mod Whole
pub mod StateAtRest
pub mod Heads
pub mod Readings
mod Keeping
mod Phases
mod Flying
pub mod Asked
pub mod Wishes
mod Entering
mod Reaching
mod TakingOwn
mod ReadFailing
mod TakingDown
mod TakingLate
mod Stopping
mod Syncing
mod Mounting
mod Missing
mod BackStepping
pub mod Growing
pub mod OlderFronts
mod Frames
mod Ready
pub mod Fitting
mod Advancing
mod Downs
mod DownFronts
mod Ended
mod Ending
mod Dropping
mod FrontKeeping
mod Halting
mod Unmounted
mod Shown
mod Seeing
pub mod GateStepping
pub mod BeingRear
pub mod GateTaking
pub mod GateReleasing
