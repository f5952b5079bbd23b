mod Places
mod Holding
pub mod Reading
pub mod Numbering
mod Stepping
mod Opening
mod Backing
mod Turning
pub mod Printing
mod Switching
mod Sent
mod SentLines
mod SentBack
mod SentTree
mod SentFront
mod SentSwitch
mod Alone
mod RanApart
mod Closing
pub mod SentBoard
