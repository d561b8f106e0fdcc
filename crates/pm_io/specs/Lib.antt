pub mod Devices
pub mod MemLinks
pub mod Sockets
pub mod Wires
