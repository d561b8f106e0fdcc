pub mod AnyMatch
pub mod Counts
pub mod Places
pub mod Steps
