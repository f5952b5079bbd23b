mod Cases
mod Slots
mod Asked
mod Numbered
mod Standing
mod Answered
mod Ordered
mod Fitted
mod Fitting
pub mod Ending
pub mod Fits
mod Moments
mod Balanced
mod Keyed
mod Requests
mod Inside
mod Once
mod Asks
mod AsksOnce
mod NoMore
mod Unknown
mod Opened
mod Told
mod Placed
