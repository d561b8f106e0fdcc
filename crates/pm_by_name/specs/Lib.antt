pub mod Keyed
pub mod Rising
