pub mod Askable
pub mod Brief
pub mod Finds
pub mod Lengths
pub mod Shorter
