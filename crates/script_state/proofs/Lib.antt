pub mod Asking
pub mod Batches
pub mod Comes
pub mod Declared
pub mod Ending
pub mod Written
