mod Args
mod AtOnce
mod Chains
pub mod Charged
pub mod Counted
mod Framed
mod Found
mod Handed
pub mod Links
pub mod Onward
pub mod Properties
mod Pushes
pub mod Starts
pub mod Walks
mod Writes
