pub mod Ended
pub mod Named
pub mod Requests
pub mod Objects
pub mod Written
pub mod Handles
