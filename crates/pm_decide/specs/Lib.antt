pub mod Gives
pub mod Hits
pub mod Live
pub mod Meaning
pub mod Places
pub mod Sets
pub mod Unmet
pub mod Verdict
