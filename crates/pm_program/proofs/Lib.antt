pub mod Exported
pub mod Made
pub mod Summing
pub mod Texts
