pub mod Kept
pub mod Rising
pub mod Shown
pub mod Told
