pub mod Accounted
pub mod Again
pub mod Arriving
pub mod Classes
pub mod Coming
pub mod SentFront
