pub mod PastKept
pub mod Stepping
