pub mod Entries
pub mod Groups
pub mod Tells
pub mod Tests
