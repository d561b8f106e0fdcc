pub mod Held
pub mod Last
pub mod Told
