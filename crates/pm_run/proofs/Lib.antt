pub mod Writing
pub mod Answering
pub mod Listed
pub mod Running
pub mod Ending
