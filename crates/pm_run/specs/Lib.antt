pub mod Coming
pub mod Ended
pub mod Fronts
pub mod Parts
pub mod Ran
pub mod Reached
pub mod Statuses
pub mod Wrote
