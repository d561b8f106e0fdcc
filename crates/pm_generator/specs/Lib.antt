pub mod Generated
pub mod Left
pub mod Runs
pub mod Summaries
pub mod Taken
pub mod Worked
