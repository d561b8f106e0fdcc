pub mod Prefixes
pub mod Entries
pub mod Joined
pub mod Single
pub mod Schedules
pub mod Computed
mod Restored
mod Awaited
