-- What the parser's functions give of the tokens that are left.
pub mod Chained
pub mod Cuts
pub mod Deep
pub mod Fault
pub mod Follow
pub mod Levels
pub mod Lists
pub mod Parsed
pub mod Pieces
pub mod Ranks
pub mod Sound
pub mod Starts
pub mod Taken
pub mod Then
pub mod Trees
