pub mod Slots
pub mod Numbers
pub mod Homes
pub mod Laws
