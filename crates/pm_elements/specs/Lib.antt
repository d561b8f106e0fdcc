pub mod Checks
pub mod Kept
pub mod Listed
pub mod Numbers
pub mod Slots
pub mod Told
