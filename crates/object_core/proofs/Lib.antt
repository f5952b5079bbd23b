pub mod Due
pub mod Alike
mod Hearing
mod Heeding
mod Attending
mod Sending
mod SentFit
mod DownSaid
pub mod FitTaken
mod KnownObject
pub mod Knowing
mod NextFits
mod Fitting
mod Lanes
pub mod Naming
mod Pairing
mod Sticking
mod Becoming
mod Dropping
pub mod Owing
mod Leaving
mod Drops
pub mod Limiting
pub mod Rebuilding
mod Taking
mod Flushing
mod Releasing
mod Mending
mod Turning
mod Forward
mod Freeing
mod Numbers
mod Waiting
mod Joining
mod Meeting
mod Joined
mod Unheard
pub mod Alone
mod Choosing
mod Turns
mod Collects
mod Runs
mod Beginning
mod Freshness
mod Telling
mod Emptied
mod Quiet
pub mod Unended
mod Serving
mod Once
pub mod Unmoved
pub mod Classless
pub mod Fetches
