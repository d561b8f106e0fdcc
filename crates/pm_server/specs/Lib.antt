pub mod KeySets
pub mod Listening
pub mod Polled
