pub mod Going
pub mod Stays
pub mod Answered
pub mod Counting
pub mod Standing
pub mod Sent
