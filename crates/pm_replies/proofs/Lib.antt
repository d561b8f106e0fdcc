pub mod Hex
pub mod Listing
pub mod Numbering
pub mod Reading
pub mod Rendered
pub mod Told
