pub mod Computed
pub mod Counted
pub mod Named
pub mod Numbers
pub mod Running
