pub mod Given
pub mod Told
pub mod Held
pub mod Joins
pub mod Parents
