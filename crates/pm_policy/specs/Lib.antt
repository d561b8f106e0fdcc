pub mod Drawn
pub mod Order
pub mod Policy
pub mod PolicyOf
pub mod Requests
pub mod Sound
pub mod Waiting
