pub mod Speaking
pub mod Wiring
pub mod Turning
pub mod Talking
pub mod Meeting
pub mod Working
