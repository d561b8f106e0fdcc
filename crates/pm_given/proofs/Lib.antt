pub mod Above
pub mod Bits
pub mod Grants
pub mod Sources
pub mod Tells
