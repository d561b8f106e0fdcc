pub mod Changed
pub mod Leaves
pub mod Owning
pub mod Passing
pub mod Runs
pub mod Spots
