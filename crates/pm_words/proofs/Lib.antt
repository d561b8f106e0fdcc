pub mod Adding
pub mod Placed
pub mod Behind
pub mod Telling
pub mod Asking
pub mod Numbers
pub mod Values
pub mod Exactly
