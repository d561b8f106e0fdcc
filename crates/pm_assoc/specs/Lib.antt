pub mod Counted
pub mod Grantees
pub mod Holders
pub mod Kept
pub mod Shown
pub mod Told
