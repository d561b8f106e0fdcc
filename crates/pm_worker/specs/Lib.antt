pub mod Told
pub mod Shares
pub mod Connected
pub mod Answering
pub mod Turns
pub mod Served
pub mod Talks
pub mod Feeding
