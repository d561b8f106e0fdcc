pub mod Examples
pub mod Meaning
