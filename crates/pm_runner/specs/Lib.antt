pub mod Outcomes
pub mod Standing
pub mod Turns
pub mod Worked
