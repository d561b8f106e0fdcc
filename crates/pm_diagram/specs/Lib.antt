pub mod Drawn
pub mod Shape
