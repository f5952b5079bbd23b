pub mod Paused
pub mod Outcomes
pub mod Alarmed
pub mod Held
pub mod Goes
pub mod Kinds
