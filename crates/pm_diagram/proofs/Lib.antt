pub mod Containing
pub mod Counting
pub mod Drawing
pub mod Telling
