pub mod ByNames
pub mod Numbered
pub mod Replied
