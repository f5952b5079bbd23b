pub mod Digits
pub mod InsideRuns
pub mod Numbers
pub mod OneAnswer
pub mod Openings
pub mod Runs
pub mod Spans
