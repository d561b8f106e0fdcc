pub mod Resolved
pub mod Rights
pub mod Ruled
pub mod Verdicts
