pub mod Printed
pub mod FirstFault
pub mod Within
pub mod Walked
pub mod Answered
pub mod ReadBack
pub mod Again
