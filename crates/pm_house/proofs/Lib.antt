pub mod Counting
pub mod Kept
pub mod Own
pub mod EntryByEntry
pub mod GoingOn
pub mod Seating
pub mod Sitting
