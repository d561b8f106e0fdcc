pub mod ByName
pub mod Keyed
pub mod Ordered
pub mod Places
