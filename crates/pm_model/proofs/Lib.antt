pub mod Bits
pub mod ContainmentLaws
pub mod Joined
pub mod Places
pub mod Walks
