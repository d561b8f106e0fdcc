pub mod Awaited
pub mod Kept
pub mod Lists
pub mod Told
pub mod Worked
