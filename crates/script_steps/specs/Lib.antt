-- How scripts unfold: the parts of nodes from a place on; paths, frames, foci and moves as the meaning has them; and how much
-- is left to do.
pub mod Parts
pub mod Paths
pub mod Seen
pub mod Weight
