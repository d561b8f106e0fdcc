pub mod Disks
pub mod Steps
pub mod Past
pub mod Files
