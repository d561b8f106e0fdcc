mod Bits
mod Ends
mod Gathering
mod Ordering
mod Steps
mod Whole
