pub mod Asking
pub mod Commands
pub mod Fair
pub mod Short
