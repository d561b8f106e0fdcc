pub mod Gathered
pub mod KeyBits
pub mod Polling
pub mod Staying
