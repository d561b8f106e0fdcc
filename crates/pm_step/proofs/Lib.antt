mod Acting
mod Counted
mod Glancing
mod Placed
mod Resolved
mod Settled
mod Stepping
mod Telling
