pub mod Assigned
mod Bounds
pub mod Created
pub mod Edits
pub mod Fits
pub mod Found
pub mod Held
pub mod Linking
pub mod Lists
pub mod Nexts
pub mod Numbers
pub mod Pairs
pub mod Placing
pub mod Removing
pub mod Shown
